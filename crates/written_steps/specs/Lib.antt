pub mod Accepted
pub mod TwoLists
pub mod Seen
pub mod Watches
pub mod Initial
pub mod Parts
