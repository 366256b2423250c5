pub mod Fields
pub mod Rows
pub mod Blocks
pub mod Turns
pub mod Refused
pub mod Writing
pub mod CanWrite
