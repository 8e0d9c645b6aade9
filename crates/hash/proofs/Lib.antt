pub mod RoundsExamples
pub mod RoundsLaws
pub mod HashLaws
