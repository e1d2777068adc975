-- Laws of texts put one after another, and of what is said of a line.
pub mod Examples
pub mod Putting
