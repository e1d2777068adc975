-- Laws of the usual slot sizes, and of the table of classes.
pub mod Sizes
pub mod Steps
