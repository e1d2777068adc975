pub mod Line
pub mod Batch
pub mod Opened
