pub mod Lists
pub mod Tables
pub mod Unions
pub mod Reading
pub mod Listings
