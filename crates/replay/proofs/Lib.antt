-- Laws of requests served one after another.
pub mod Replayed
