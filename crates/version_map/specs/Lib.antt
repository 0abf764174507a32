pub mod Texts
pub mod Words
pub mod Lines
pub mod Maps
pub mod Drafts
pub mod Fits
