pub mod Pushes
pub mod Sequences
pub mod Stacks
pub mod ValueForms
pub mod Forms
pub mod Calls
