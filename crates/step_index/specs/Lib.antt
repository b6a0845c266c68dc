pub mod Numbers
pub mod Sparse
pub mod NumberSets
