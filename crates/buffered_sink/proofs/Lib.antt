pub mod BufferPart
pub mod Fronts
