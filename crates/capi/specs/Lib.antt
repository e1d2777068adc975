pub mod Numbers
pub mod Slots
