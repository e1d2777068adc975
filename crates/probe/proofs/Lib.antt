-- Laws of the search for a slot by draws.
pub mod Probe
pub mod Chosen
