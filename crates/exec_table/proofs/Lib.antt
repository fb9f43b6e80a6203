pub mod Imports
pub mod Readiness
mod Wording
mod Moving
pub mod Stepping
mod Kept
mod Tied
mod Showing
pub mod Hands
pub mod Seating
mod SlotLists
mod Handling
mod Working
pub mod Known
pub mod Ends
mod Starting
mod Surveying
