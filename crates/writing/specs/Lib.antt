pub mod FieldAt
pub mod Lines
pub mod Told
