-- Laws of a number's digits.
pub mod Spelling
