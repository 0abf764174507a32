pub mod Alike
pub mod Objects
pub mod Trees
pub mod Loops
pub mod Functions
pub mod Inputs
