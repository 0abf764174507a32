pub mod Tables
pub mod Touches
pub mod Laws
