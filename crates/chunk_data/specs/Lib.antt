pub mod formers
pub mod Texts
pub mod Values
pub mod Rows
pub mod Places
pub mod PlainColumns
pub mod Columns
pub mod Names
