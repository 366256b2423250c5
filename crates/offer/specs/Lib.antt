pub mod Outcome
pub mod Verdicts
