pub mod Bases
pub mod Placing
pub mod Reads
pub mod Writes
pub mod Loops
