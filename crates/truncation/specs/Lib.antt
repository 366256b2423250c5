pub mod Truncations
pub mod Cuts
pub mod Outcomes
