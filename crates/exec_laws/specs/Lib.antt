pub mod Prelude
pub mod Runs
pub mod Moves
pub mod Growths
pub mod Births
pub mod Ends
pub mod Names
