pub mod Seen
pub mod Places
pub mod CellsOfTables
pub mod Frames
pub mod Residuals
