pub mod DividingSteps
pub mod DivisionValues
pub mod OutcomeValues
pub mod ShiftDown
pub mod ShiftValues
pub mod ShiftWords
pub mod ShiftingSteps
pub mod SignValues
