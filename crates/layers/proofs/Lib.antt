pub mod Highest
pub mod Laid
pub mod LayerLaws
pub mod LayerExamples
pub mod RefusalRows
pub mod CallLaws
pub mod Steps
