pub mod Requests
pub mod Replies
pub mod Answers
pub mod Several
pub mod Merged
pub mod Table
pub mod Texts
pub mod NameLines
