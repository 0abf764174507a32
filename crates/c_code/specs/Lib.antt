pub mod Expressions
pub mod Acts
pub mod Initializers
pub mod Statements
pub mod Bodies
