pub mod Whole
pub mod Outputs
