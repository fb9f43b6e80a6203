pub mod EndedCells
pub mod NamedCells
pub mod Scripts
pub mod TableRows
pub mod TableSlots
