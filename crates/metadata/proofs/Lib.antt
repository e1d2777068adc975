-- Laws of the metadata's fields and bitmaps.
pub mod Stored
