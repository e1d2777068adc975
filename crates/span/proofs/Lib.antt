-- Laws of blocks held against a pattern.
pub mod Parts
