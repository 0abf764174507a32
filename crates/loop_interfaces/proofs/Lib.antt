pub mod Places
pub mod Standing
pub mod Ordered
pub mod Joined
