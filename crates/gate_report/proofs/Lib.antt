pub mod FaultsByNumbers
mod WorkedLines
