pub mod CommandLemmas
pub mod Readings
pub mod SpellingLemmas
