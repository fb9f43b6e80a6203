pub mod Imports
pub mod BlankLaws
pub mod SamePorts
pub mod FlawLaws
pub mod OwnPorts
