pub mod ResultsOfBytes
pub mod FaultsByNumbers
mod WorkedLines
