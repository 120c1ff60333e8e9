pub mod Laws
pub mod Lemmas
pub mod Worked
