pub mod Lists
pub mod Measures
pub mod Needs
pub mod Walks
pub mod Steps
pub mod Ends
pub mod Sequences
pub mod Listings
