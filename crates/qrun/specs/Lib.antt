pub mod Stocking
pub mod Unlawful
