pub mod Laws
pub mod Each
mod LawsCode
