pub mod NewIds
pub mod Counts
pub mod Outcomes
