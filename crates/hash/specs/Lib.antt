pub mod Accepted
pub mod Hash
