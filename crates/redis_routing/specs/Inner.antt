pub mod NameRule
pub mod NameSpots
pub mod SlotPages
