pub mod Run
pub mod Pair
pub mod Live
pub mod Undisturbed
pub mod Wordings
