pub mod Setting
pub mod Played
pub mod Computed
mod Moves
pub mod ToldLiterals
pub mod ConditionGates
pub mod ChainedEntries
pub mod ChosenValues
pub mod AssembledWires
pub mod AssembledCircuit
pub mod FoundPlaces
pub mod GateCosts
pub mod ReadyDecisions
pub mod PathValues
pub mod TrimmedCircuit
pub mod SameWins
pub mod ListedWires
