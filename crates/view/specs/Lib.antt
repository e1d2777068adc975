pub mod View
pub mod Looked
