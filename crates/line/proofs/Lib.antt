-- Laws of what a line of text asks for, and examples.
pub mod Digits
pub mod Reading
pub mod Examples
