pub mod Pieces
pub mod Tables
pub mod Words
pub mod Written
