pub mod Imports
pub mod Laying
