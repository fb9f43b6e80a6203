mod Imports
pub mod Lists
pub mod Completeness
pub mod CellChanges
pub mod EndedNodes
pub mod LaterEnds
pub mod WorkerEnds
