pub mod Prelude
pub mod CellLists
pub mod RunEnds
pub mod Resting
