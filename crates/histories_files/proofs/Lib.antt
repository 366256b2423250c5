pub mod Stored
pub mod Opened
pub mod Files
pub mod Examples
