pub mod Sets
pub mod Proof
pub mod Unreduced
pub mod Trim
pub mod Laws
pub mod Marks
pub mod Refused
pub mod Passed
