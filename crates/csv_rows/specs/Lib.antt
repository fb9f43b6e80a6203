pub mod Lines
pub mod RowsLeft
pub mod Places
