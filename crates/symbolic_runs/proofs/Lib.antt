pub mod Exits
pub mod Joined
pub mod Keeping
pub mod Merged
pub mod Rules
pub mod Simulating
pub mod Units
