pub mod Forms
pub mod Reading
pub mod Messages
pub mod Versions
pub mod Requests
pub mod Texts
