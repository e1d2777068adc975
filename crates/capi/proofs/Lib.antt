-- Laws of looking slots up, and worked examples of the C interface's own numbers.
pub mod Lookups
pub mod SlotExamples
pub mod Listing
pub mod Examples
