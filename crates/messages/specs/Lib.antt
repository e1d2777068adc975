pub mod Put
pub mod Message
