pub mod Said
pub mod Replay
pub mod Commands
pub mod Logged
pub mod Held
pub mod Beside
pub mod Amid
