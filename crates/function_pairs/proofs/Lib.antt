pub mod Steps
pub mod SideLemmas
pub mod NamedPairs
pub mod PairLemmas
pub mod Unknown
