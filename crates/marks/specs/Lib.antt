pub mod Marks
pub mod Turned
