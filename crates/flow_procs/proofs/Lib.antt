pub mod Imports
mod FilterLaws
mod LimitLaws
mod CountingLaws
