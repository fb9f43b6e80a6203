pub mod Flaws
pub mod OwnWires
