mod Imports
pub mod Shown
pub mod StillLaws
mod LookLaws
pub mod LoopLaws
mod ActLaws
mod TellLaws
pub mod NextLaws
