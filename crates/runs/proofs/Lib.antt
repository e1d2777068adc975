-- The theorems over runs of requests, the laws that lead to them, and examples.
pub mod Results
pub mod Pairing
pub mod Objects
pub mod Tracking
pub mod Sane
pub mod Runs
pub mod Drawing
pub mod Undisturbed
pub mod Clean
pub mod Places
pub mod Wordings
pub mod Traits
pub mod Lasting
pub mod Restated
pub mod Examples
pub mod RunExamples
pub mod UndisturbedExamples
