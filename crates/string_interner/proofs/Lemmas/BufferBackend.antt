pub mod Bytes
pub mod Reads
pub mod Spelling
