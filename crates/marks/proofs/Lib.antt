pub mod LawsFree
pub mod LawsCount
pub mod LawsMapped
pub mod LawsCalm
