pub mod ProgramReport
pub mod WordByWord
