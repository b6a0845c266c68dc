pub mod Tokens
pub mod Front
