-- Laws of canaries: slots filled with one, and where bytes are others.
pub mod Filling
pub mod Damage
pub mod Slots
