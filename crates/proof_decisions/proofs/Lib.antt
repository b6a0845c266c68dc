pub mod Winning
pub mod FullyReduced
pub mod RemovedLiterals
pub mod FoundOrigins
pub mod MadeDecisions
pub mod WinningCircuits
pub mod DecisionSizes
pub mod IdleDecisions
