pub mod Numbering
pub mod TurnedTwice
