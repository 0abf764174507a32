pub mod Kept
pub mod Extents
pub mod Ranges
pub mod Starts
pub mod Frames
pub mod Tables
