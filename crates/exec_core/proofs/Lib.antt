pub mod Imports
pub mod Replaced
pub mod Lists
pub mod Words
pub mod Runs
pub mod Bounds
pub mod Starting
