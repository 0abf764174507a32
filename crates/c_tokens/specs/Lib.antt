pub mod Bytes
pub mod Tables
pub mod Digits
pub mod Constants
pub mod Quotes
pub mod Classes
pub mod Fronts
