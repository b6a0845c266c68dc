pub mod Derivations
pub mod Laws
pub mod Setting
pub mod Strategies
