pub mod Strings
pub mod Longest
