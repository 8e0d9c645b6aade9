pub mod Digits
pub mod Hex
