pub mod Kept
pub mod Outcomes
