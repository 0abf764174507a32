pub mod Indexes
pub mod Views
