pub mod Invariant
pub mod Statements
