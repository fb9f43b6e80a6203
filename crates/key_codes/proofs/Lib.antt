mod Imports
mod CodeLaws
pub mod KeyLaws
