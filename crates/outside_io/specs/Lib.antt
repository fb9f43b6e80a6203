pub mod Counts
pub mod Growth
pub mod Told
pub mod Scripts
pub mod MemStates
pub mod MemEntries
pub mod Readers
