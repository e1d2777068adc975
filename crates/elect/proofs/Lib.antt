-- Laws of rows and tables of all replicas, and of the leader.
pub mod Tables
pub mod Rows
pub mod Leading
