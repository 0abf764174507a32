pub mod Applications
pub mod Congruence
pub mod Testing
pub mod Applying
pub mod Names
pub mod Groups
