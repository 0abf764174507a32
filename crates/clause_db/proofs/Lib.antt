pub mod Ordered
pub mod Clash
pub mod Merge
pub mod Read
pub mod Places
pub mod Reading
