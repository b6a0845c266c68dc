pub mod Laws
pub mod Textbook
