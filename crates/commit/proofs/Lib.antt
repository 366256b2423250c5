pub mod Laws
pub mod LawsApply
