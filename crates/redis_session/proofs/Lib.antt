mod AddedRows
pub mod Begins
pub mod DoneReplies
mod Elements
pub mod GivenReplies
mod KeptDeadlines
mod KeptRules
pub mod Leads
mod Listed
mod NodeTables
mod OwnSlots
mod PartLists
mod Redirects
mod SentParts
mod Serving
mod SlotNumbers
mod TableNames
