pub mod Accepted
pub mod Layers
pub mod Vocabulary
