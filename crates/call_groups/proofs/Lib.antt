pub mod Edges
pub mod Tables
