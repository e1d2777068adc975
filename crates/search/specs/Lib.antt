pub mod First
pub mod Those
pub mod Tabulate
