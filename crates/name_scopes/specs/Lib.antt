pub mod Names
pub mod Texts
pub mod Places
pub mod Links
