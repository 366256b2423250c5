pub mod LawsHinted
pub mod LawsCounted
pub mod LawsReleased
