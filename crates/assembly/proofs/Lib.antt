-- Laws of lines read from an input that comes in pieces, and the theorems that no cut changes what is read.
pub mod Examples
pub mod Splitting
pub mod Assembled
pub mod Turning
pub mod Turns
pub mod Cutting
