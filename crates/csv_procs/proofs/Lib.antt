pub mod Imports
mod ListTexts
mod GrowthLaws
mod Lists
pub mod KernelLaws
mod HeldFiles
mod FeedLaws
pub mod SourceLaws
