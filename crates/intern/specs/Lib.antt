pub mod Arguments
pub mod Fault
pub mod Line
pub mod Lines
pub mod Served
