pub mod Lines
pub mod Output
pub mod Program
pub mod Words
