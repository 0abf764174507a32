pub mod Faults
pub mod Budget
pub mod Runs
pub mod Distinct
