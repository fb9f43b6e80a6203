pub mod Imports
pub mod Lists
pub mod Bits
pub mod Moves
pub mod Kept
pub mod Starts
pub mod Settled
