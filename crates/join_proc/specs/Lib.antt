pub mod Joins
pub mod Joinings
