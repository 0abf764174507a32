pub mod Names
pub mod Candidates
pub mod Tables
pub mod Twins
