pub mod Merging
pub mod Stores
