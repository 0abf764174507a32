pub mod TextLemmas
pub mod WordLemmas
pub mod EntryLemmas
pub mod LineLemmas
pub mod MapLemmas
pub mod FitLemmas
