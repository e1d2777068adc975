pub mod Decide
pub mod Groups
