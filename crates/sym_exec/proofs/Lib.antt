pub mod Sizes
pub mod Walking
pub mod Exits
pub mod UnitRuns
