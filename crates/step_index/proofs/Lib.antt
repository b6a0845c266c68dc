pub mod SparseNumbers
pub mod CountedNumbers
pub mod NumberSets
