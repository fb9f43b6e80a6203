pub mod Prelude
pub mod Ports
pub mod Actions
pub mod Sights
pub mod Peers
