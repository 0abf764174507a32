pub mod Lengths
pub mod OperandLeaves
pub mod TypeLeaves
pub mod Leaves
