pub mod Grammar
pub mod Reading
pub mod States
pub mod Faults
pub mod Laws
pub mod Texts
