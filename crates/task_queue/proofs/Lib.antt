pub mod Imports
pub mod Counts
pub mod QueueRule
pub mod ShelfRule
pub mod SlotValues
pub mod Seats
pub mod KeptNumbers
