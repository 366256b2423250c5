pub mod Laws
pub mod Brought
mod LawsCode
