pub mod Ports
pub mod Places
pub mod Drafts
pub mod Fitting
pub mod GraphLaws
pub mod Building
pub mod Frames
