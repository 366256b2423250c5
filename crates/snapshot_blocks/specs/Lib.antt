pub mod Formats
pub mod Blocks
pub mod Valid
pub mod Files
