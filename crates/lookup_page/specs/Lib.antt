pub mod Page
pub mod Rows
