mod Imports
mod PlaceLaws
mod AgreeLaws
mod IndexLaws
mod LeftLaws
mod JoiningLaws
