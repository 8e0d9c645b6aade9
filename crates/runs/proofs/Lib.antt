pub mod Corollaries
pub mod Demand3
pub mod Effects
pub mod Induction
pub mod RunLaws
pub mod Suspend
pub mod Table
