-- Laws of texts that are compared.
pub mod Equal
pub mod Comparing
