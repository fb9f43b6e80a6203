pub mod Imports
pub mod graph
pub mod meaning
pub mod ends
pub mod KindTable
