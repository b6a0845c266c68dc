pub mod AntecedentsInWords
pub mod Positions
pub mod SetLists
pub mod FlatSteps
pub mod OtherSets
