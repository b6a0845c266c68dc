pub mod Tokens
pub mod Runs
pub mod Lined
pub mod Left
pub mod Canonical
pub mod NumberTokens
