pub mod CountLaws
pub mod EmptyLaws
pub mod LevelTests
pub mod Phase
pub mod SoundLaws
