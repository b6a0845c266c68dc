pub mod AsBox
pub mod Greatest
pub mod ReadFaults
pub mod ReadLiterals
pub mod SameVerdict
pub mod Splitting
pub mod Used
pub mod Values
