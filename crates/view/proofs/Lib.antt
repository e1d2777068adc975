-- Laws of what a read shows.
pub mod Lying
