pub mod Case
pub mod Digest
