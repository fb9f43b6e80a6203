pub mod Growing
pub mod Fakes
pub mod Finding
