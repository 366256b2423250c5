pub mod Refusals
pub mod Outcomes
pub mod Numbers
