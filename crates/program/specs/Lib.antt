pub mod Asked
pub mod Got
pub mod Status
