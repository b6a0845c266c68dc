pub mod Buffer
pub mod PushedItems
pub mod DistinctNumbers
