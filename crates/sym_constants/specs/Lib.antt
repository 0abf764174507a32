pub mod Constants
pub mod Tests
