pub mod DistinctLists
pub mod Merging
pub mod WrittenSteps
pub mod Stamps
pub mod WatchedClauses
pub mod AcceptedClauses
pub mod PartsFollow
pub mod Cited
