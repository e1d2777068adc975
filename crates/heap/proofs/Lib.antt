-- What each way through a request comes to, as the code meets it.
pub mod Admitted
pub mod Part
pub mod Live
pub mod Allocating
pub mod Freeing
pub mod Copying
pub mod Viewing
pub mod Performing
