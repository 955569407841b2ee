mod Ended
mod Telling
pub mod Handing
