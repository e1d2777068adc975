-- Laws of stored numbers.
pub mod Stored
