pub mod Scene
pub mod WorkedExpressions
pub mod WorkedSizes
pub mod WorkedActs
