pub mod Noted
pub mod FirstPlaces
