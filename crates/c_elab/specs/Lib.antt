pub mod LastRules
pub mod LocalObjects
pub mod Typed
