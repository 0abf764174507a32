pub mod Manners
pub mod Parts
pub mod Chosen
pub mod Turns
