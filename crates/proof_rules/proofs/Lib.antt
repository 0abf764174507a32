pub mod Alike
pub mod Logs
pub mod Partial
pub mod Full
pub mod Sharing
pub mod Drops
