-- Laws of damaged slots: found slot by slot and region by region, and listed.
pub mod Within
pub mod Passing
pub mod Region
pub mod Listing
