pub mod Antecedents
pub mod Inferences
pub mod Derivations
pub mod SetLists
pub mod StepLists
pub mod Parts
pub mod Flat
