pub mod Checks
pub mod Files
pub mod Joinable
pub mod Twins
