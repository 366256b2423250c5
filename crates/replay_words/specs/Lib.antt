pub mod Lines
pub mod Ratios
pub mod Rows
pub mod Sources
pub mod Space
pub mod Tallies
