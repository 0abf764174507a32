pub mod Moves
pub mod Taken
pub mod ScopeEnds
pub mod Branched
pub mod LastPlaces
pub mod SmallNumbers
