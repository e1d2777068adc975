-- Laws of draws, and the theorems on the seeds that freeze.
pub mod Halves
pub mod Examples
pub mod Modulus
pub mod Freezing
pub mod After
