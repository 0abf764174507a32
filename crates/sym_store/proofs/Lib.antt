pub mod Choices
pub mod MergingSteps
pub mod Stores
