pub mod LawsUpdates
pub mod LawsRoom
pub mod LawsPlaces
pub mod LawsOffer
pub mod Outcomes
