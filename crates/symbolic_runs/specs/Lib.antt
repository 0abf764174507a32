pub mod Runs
pub mod Keeping
pub mod Simulation
pub mod Rules
pub mod Ending
