pub mod Collision
pub mod Descent
pub mod HashCollision
pub mod Nodes
pub mod OneLevel
pub mod Vocabulary
pub mod Windows
pub mod Worked
