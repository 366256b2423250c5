pub mod Laws
pub mod LawsEntries
pub mod LawsSlabs
