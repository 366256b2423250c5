pub mod Reading
pub mod Lent
pub mod Statements
