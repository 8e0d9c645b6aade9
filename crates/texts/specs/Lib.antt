pub mod Text
pub mod Vocabulary
