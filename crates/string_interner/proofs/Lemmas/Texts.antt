pub mod Equal
pub mod First
pub mod Words
