pub mod Lanes
pub mod SignedNumbers
pub mod Cursors
pub mod Numbers
pub mod Values
