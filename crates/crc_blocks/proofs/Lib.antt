pub mod Relation
pub mod Pending
