pub mod Bits
pub mod Turns
pub mod Groups
pub mod Checked
