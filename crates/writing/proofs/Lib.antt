-- Laws of bytes written over others.
pub mod Writing
pub mod Fitting
pub mod Parts
