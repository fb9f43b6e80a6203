pub mod Prelude
pub mod Filters
pub mod Expressions
pub mod Limits
pub mod Resizes
pub mod Collects
pub mod Counting
pub mod Names
