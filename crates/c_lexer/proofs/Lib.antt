pub mod PlaceLemmas
pub mod StartLemmas
pub mod PieceLemmas
pub mod DefineLemmas
pub mod LineLemmas
pub mod ReadingLemmas
