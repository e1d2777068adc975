-- Laws of lengths and live counts.
pub mod Judging
pub mod Admitting
