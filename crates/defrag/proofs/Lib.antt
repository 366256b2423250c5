pub mod Written
pub mod Spans
pub mod Moves
pub mod Granted
pub mod Outcomes
