pub mod Building
pub mod Builders
