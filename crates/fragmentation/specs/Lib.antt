pub mod Cutoff
pub mod Answer
pub mod Outcomes
