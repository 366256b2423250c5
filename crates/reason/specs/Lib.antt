pub mod Reasons
pub mod Read
pub mod Outcomes
