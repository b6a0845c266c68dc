pub mod Conditions
pub mod Unreduced
pub mod Walks
pub mod Normal
pub mod Reducts
