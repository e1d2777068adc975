pub mod Batch
pub mod Pieces
pub mod Turn
