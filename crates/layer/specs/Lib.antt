pub mod IndexLaws
pub mod LogLaws
pub mod OneLayer
pub mod Outputs
pub mod OverLaws
