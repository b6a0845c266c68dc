pub mod ProgramReport
