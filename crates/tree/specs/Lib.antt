pub mod Kind
pub mod Place
pub mod Sizes
pub mod Tree
pub mod Vocabulary
