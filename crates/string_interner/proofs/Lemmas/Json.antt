pub mod Reads
pub mod ReadsExactly
