pub mod Calls
pub mod Table
pub mod Further
pub mod Canaries
pub mod Wholes
