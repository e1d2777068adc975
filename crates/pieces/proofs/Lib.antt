-- The theorem that no cut of an input changes the answers.
pub mod Cutting
