pub mod SoughtLemmas
pub mod KeyLemmas
pub mod DeclarationLemmas
pub mod LoopLemmas
pub mod TallyLemmas
