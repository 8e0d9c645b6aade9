pub mod FlushLaws
pub mod Left
pub mod Levels
pub mod MakeLaws
pub mod OpenArea
pub mod PassLaws
pub mod ReceiveLaws
