-- Laws of whole votes: the loop over blocks, who is left, how a vote ends, the theorems, and what their words mean.
pub mod Blocks
pub mod Left
pub mod Ending
pub mod Whole
pub mod Examples
