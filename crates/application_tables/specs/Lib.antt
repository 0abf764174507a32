pub mod Lawful
pub mod Making
pub mod Standing
pub mod Realizing
