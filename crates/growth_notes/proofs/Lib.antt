pub mod Imports
pub mod NotesRule
