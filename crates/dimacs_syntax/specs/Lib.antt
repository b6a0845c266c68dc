pub mod Spelling
pub mod Decode
pub mod Headers
pub mod Texts
pub mod Cited
