pub mod Rules
pub mod LookAhead
pub mod Names
pub mod State
pub mod Rows
pub mod File
pub mod Stands
