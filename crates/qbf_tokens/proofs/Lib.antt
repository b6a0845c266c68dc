mod TokenRows
pub mod DigitByDigit
pub mod KindKept
pub mod ByteByByte
pub mod Spelled
pub mod TokensEndOnce
pub mod CanonicalTokens
pub mod Cited
