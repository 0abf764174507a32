pub mod Tests
pub mod Plans
pub mod Pairs
pub mod Equal
pub mod Types
pub mod Joined
pub mod Entries
