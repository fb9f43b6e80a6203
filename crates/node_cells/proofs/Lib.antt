mod Imports
pub mod SettledLaws
pub mod EndLaws
pub mod StayLaws
pub mod TurnLaws
mod UpdatedLaws
pub mod RestLaws
pub mod BeginLaws
pub mod WorkLaws
pub mod ChargeLaws
pub mod QueueLaws
pub mod VisitLaws
mod SizeLaws
mod NewPorts
mod NewReserves
pub mod OwnWires
pub mod NewCells
