-- Laws of counting upward: the first number that passes a test, all that do, and what a function gives at each.
pub mod First
pub mod Those
pub mod Rising
pub mod Blocks
pub mod Tabulate
