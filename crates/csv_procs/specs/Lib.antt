pub mod Prelude
pub mod ListLines
pub mod Parts
pub mod FileFetch
pub mod Fetching
pub mod SourceShells
pub mod PartSeen
pub mod Names
