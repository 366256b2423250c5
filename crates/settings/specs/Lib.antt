pub mod Settings
pub mod Outcomes
