pub mod Prelude
pub mod Endings
pub mod Racks
pub mod Commands
pub mod Causes
pub mod Headline
pub mod Steps
pub mod Names
