-- Laws of a request's bytes.
pub mod Parsing
