mod WorkedRows
pub mod BufferedNumbers
pub mod SpelledIsRead
pub mod ReadIsSpelled
pub mod WrittenParts
pub mod RowsReadTheItem
pub mod ItemStops
pub mod KeptItems
pub mod ReadingLaws
pub mod Cited
