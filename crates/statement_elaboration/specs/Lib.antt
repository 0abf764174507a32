pub mod Views
pub mod Parts
pub mod Headers
pub mod LabelIndex
