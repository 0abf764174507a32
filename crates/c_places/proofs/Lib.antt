pub mod PutBack
pub mod CellRuns
pub mod OwnedRanges
pub mod Begins
pub mod ObjectCells
pub mod Entering
pub mod Copying
pub mod CallEffects
