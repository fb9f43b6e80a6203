pub mod Imports
pub mod Taking
pub mod Loading
pub mod Telling
