pub mod Cells
pub mod Extents
pub mod Memories
pub mod Entries
pub mod Locals
