pub mod Ahead
pub mod Entries
pub mod Column
pub mod Parts
pub mod Symbols
