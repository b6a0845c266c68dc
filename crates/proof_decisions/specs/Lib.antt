pub mod Sizes
pub mod ProofDecisions
pub mod Removing
pub mod Laws
