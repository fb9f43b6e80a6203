pub mod Tokens
pub mod QueryTypes
pub mod Strings
pub mod Longest
pub mod Grammar
pub mod Names
