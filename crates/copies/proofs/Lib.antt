-- Laws of what copies write into bytes that they are lent.
pub mod Index
pub mod Contents
pub mod Clipping
pub mod Zeros
