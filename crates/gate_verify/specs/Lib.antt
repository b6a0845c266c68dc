pub mod Laws
pub mod Faults
pub mod Made
pub mod Checked
pub mod Headline
