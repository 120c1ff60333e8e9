pub mod Loose
pub mod Handle
pub mod Address
pub mod InternMany
pub mod Entries
pub mod Json
pub mod Ascii
pub mod IsCut
