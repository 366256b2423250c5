pub mod LawsCut
pub mod LawsCutoff
pub mod Outcomes
