-- The laws and theorems on openings, single requests and inspections, and examples.
pub mod Accepting
pub mod Space
pub mod Finding
pub mod Outcomes
pub mod Copying
pub mod Effects
pub mod Serving
pub mod Refusing
pub mod Seeding
pub mod Showing
pub mod Damage
pub mod Alike
pub mod Inspecting
pub mod InspectingExamples
pub mod Changing
pub mod ChangingExamples
