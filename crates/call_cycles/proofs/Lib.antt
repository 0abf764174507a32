pub mod Elements
pub mod Earliest
pub mod MissingCalls
pub mod CyclePlaces
pub mod EntriesAndNotes
