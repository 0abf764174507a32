pub mod CastChains
pub mod Forms
pub mod Views
