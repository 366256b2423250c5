pub mod Shifts
pub mod Turns
pub mod Bytes
pub mod Passed
pub mod Read
pub mod LastWords
