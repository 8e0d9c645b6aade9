pub mod BlockLaws
pub mod Making
pub mod NodeByNode
pub mod SequentialLaws
pub mod Value
pub mod ValueLaws
