pub mod Replaying
pub mod CommandReplaying
pub mod Beside
pub mod AnsweredSends
pub mod Amid
