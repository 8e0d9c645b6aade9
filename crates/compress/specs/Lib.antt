pub mod Buffer
pub mod Compress
pub mod Report
