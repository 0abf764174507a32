pub mod Inputs
pub mod Needed
pub mod Tseitin
