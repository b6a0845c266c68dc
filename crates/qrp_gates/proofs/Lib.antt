pub mod ProgramReport
pub mod StrategyWords
