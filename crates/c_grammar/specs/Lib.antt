pub mod Grammar
pub mod GrammarHolds
pub mod Classes
pub mod Terminals
pub mod Refusals
