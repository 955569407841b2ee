pub mod Direction
pub mod Refusals
