pub mod Counterparts
pub mod Defined
pub mod FunctionPairs
pub mod Sides
pub mod Refusals
pub mod Units
pub mod Laws
