pub mod EncodedLines
pub mod FoundStrategies
pub mod GatesReturned
pub mod GivenTexts
pub mod HeadlineOfStruct
pub mod LineRoom
