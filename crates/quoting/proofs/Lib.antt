-- Laws of a word as it is shown.
pub mod Showing
