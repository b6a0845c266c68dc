pub mod RulesHold
pub mod TextbookSteps
pub mod Writing
pub mod Small
pub mod Traces
