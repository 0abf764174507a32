pub mod Places
pub mod Texts
pub mod Starts
pub mod Pieces
pub mod Defines
pub mod Lines
pub mod Stops
pub mod Spells
