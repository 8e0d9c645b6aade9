pub mod LinesSpelt
pub mod SpellLevels
pub mod Again
pub mod Readable
pub mod CallLaws
