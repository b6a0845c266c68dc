pub mod Adding
pub mod Checks
pub mod Many
pub mod Owned
pub mod Statuses
pub mod Texts
pub mod Alike
