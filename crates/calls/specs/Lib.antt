pub mod Area
pub mod Calls
pub mod Marks
pub mod Vocabulary
