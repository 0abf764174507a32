pub mod Indexing
pub mod Loops
pub mod Pointing
pub mod SpotValues
pub mod Spreads
pub mod Tests
