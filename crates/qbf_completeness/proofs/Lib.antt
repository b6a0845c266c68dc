pub mod Setting
pub mod SameBlock
pub mod Players
pub mod Deriving
pub mod Playing
