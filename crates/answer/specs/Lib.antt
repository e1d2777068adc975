pub mod Reply
pub mod Checks
