pub mod Text
pub mod Number
pub mod Line
