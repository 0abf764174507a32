pub mod Booleans
pub mod SameLemmas
pub mod RowLemmas
pub mod TableCheck
pub mod ChooseLemmas
pub mod Steps
pub mod MoveLemmas
