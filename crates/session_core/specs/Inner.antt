pub mod Ready
pub mod Heard
pub mod Lane
pub mod LaneForms
pub mod Lone
pub mod Tied
