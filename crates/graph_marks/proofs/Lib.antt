pub mod Rounds
pub mod Spreading
