pub mod Stock
pub mod Boxes
pub mod Plans
