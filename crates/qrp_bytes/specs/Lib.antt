pub mod Buffers
pub mod Texts
pub mod Encoding
pub mod Verdicts
pub mod Strategies
pub mod Gates
