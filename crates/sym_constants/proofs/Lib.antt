pub mod Bits
pub mod Testing
