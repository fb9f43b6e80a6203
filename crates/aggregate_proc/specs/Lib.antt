pub mod Prelude
pub mod Folds
pub mod Cells
pub mod Tables
pub mod GroupKinds
pub mod GroupShells
