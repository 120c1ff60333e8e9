pub mod EntryAhead
pub mod IsCoded
pub mod IsSoundTable
pub mod IsTable
pub mod Removes
pub mod Seeks
