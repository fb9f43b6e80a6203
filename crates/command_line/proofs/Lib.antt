pub mod Imports
pub mod Cuts
pub mod Meanings
pub mod NameLaws
pub mod PieceLaws
pub mod Readings
pub mod WrittenLaws
