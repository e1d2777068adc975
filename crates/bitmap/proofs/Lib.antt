-- Laws of a bitmap: its slots tested, set, cleared, counted, and walked to the next clear one.
pub mod Byte
pub mod Slot
pub mod Walk
pub mod Counted
pub mod Change
