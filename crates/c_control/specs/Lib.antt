pub mod Branches
pub mod Groups
pub mod Loops
