-- The theorems that the tables of worked examples hold.
pub mod Answers
