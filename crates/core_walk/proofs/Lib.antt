pub mod NamedSteps
pub mod Marking
pub mod MarkedPlaces
pub mod DistinctLits
pub mod CoreStep
pub mod UnevenSteps
pub mod Cited
