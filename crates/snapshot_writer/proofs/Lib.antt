pub mod LawsRows
pub mod LawsBlocks
pub mod LawsRead
pub mod Outcomes
