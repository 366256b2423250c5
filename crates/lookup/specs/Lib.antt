pub mod Lookup
pub mod Outcomes
