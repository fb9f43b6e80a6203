mod Imports
pub mod Lists
pub mod Visits
mod Settling
pub mod Reports
pub mod Boxes
mod Surveys
pub mod CellChanges
pub mod NewCells
