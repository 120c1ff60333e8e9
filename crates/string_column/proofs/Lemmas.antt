pub mod Ahead
pub mod AreNumbered
pub mod Blocks
pub mod Counts
pub mod Parts
pub mod Recodes
pub mod Rows
pub mod Symbols
