pub mod Operands
pub mod Tasks
pub mod Weights
