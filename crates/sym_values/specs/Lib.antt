pub mod Valuations
pub mod Values
pub mod Gates
