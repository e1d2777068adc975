-- Laws of regions, classes, slots and bitmaps.
pub mod Geometry
pub mod Slots
pub mod Doubling
pub mod Halving
