pub mod Symbols
pub mod Reading
pub mod Laws
