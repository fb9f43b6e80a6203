pub mod Pushing
pub mod MachineSteps
pub mod ByteRuns
pub mod FieldPlaces
pub mod PartPlaces
pub mod Imports
pub mod ShortNumbers
