pub mod Extending
pub mod Gates
pub mod Marks
pub mod Meaning
pub mod Numbering
pub mod Variables
pub mod Written
