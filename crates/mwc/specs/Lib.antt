pub mod Draw
pub mod Freezing
