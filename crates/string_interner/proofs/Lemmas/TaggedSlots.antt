pub mod IsTagged
pub mod StoredCode
pub mod SymbolsIn
pub mod Tags
pub mod TagTells
