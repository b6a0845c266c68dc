pub mod StrategyOfBytes
