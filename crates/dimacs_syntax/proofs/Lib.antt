pub mod WrittenParts
pub mod CanonicalLines
pub mod Cited
pub mod Worked
pub mod WrittenNumbers
