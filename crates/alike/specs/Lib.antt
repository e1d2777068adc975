pub mod Alike
pub mod Text
