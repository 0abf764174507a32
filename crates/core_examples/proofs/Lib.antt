pub mod Plain
pub mod Fitting
