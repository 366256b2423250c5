pub mod LawsNewId
pub mod LawsCounts
pub mod Outcomes
