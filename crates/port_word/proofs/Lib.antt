pub mod Imports
pub mod Slots
pub mod Soundness
pub mod Fitting
pub mod Steps
pub mod Differences
pub mod Laws
