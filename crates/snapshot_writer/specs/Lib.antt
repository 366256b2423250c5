pub mod Outcome
pub mod Writer
pub mod Outcomes
