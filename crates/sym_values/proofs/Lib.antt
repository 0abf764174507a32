pub mod Conjunctions
pub mod Assignments
pub mod SameBits
pub mod Ripples
pub mod Tests
