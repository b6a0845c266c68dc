pub mod Refusals
pub mod Lines
pub mod Meanings
pub mod Results
pub mod OfFaults
