pub mod FunctionHeaders
pub mod Compounds
