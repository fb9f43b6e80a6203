pub mod Numbers
pub mod Passages
pub mod Queues
pub mod Rules
pub mod Steps
pub mod Values
pub mod Shelves
pub mod Tasks
