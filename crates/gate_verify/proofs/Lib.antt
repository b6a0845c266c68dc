pub mod Shown
pub mod Told
pub mod Verdicts
pub mod HeadlineOfGates
