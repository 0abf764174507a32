pub mod TypeWords
pub mod Extents
pub mod Chains
pub mod Views
