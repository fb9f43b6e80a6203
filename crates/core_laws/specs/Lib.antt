pub mod Views
pub mod Steps
pub mod Start
pub mod Laws
