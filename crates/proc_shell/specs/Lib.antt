pub mod Prelude
pub mod Steps
pub mod Kernels
pub mod Turning
pub mod Shells
pub mod Names
