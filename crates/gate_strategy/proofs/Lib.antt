pub mod Places
pub mod Parts
pub mod Cut
pub mod Winners
pub mod Falsified
pub mod Shown
pub mod Counted
pub mod StrategyOfBytes
