-- Laws of comparing, counting and the winner of a vote, and of its steps.
pub mod Comparing
pub mod Decision
pub mod Stepping
pub mod Winning
