pub mod Aims
pub mod Loops
pub mod Spots
