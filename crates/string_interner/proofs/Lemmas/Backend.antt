pub mod IsValidList
pub mod Entries
pub mod Numbering
