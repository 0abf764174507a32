pub mod Lawful
pub mod Making
pub mod FreshBits
pub mod Encodings
pub mod Realized
pub mod Standing
