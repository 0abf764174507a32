pub mod StackEffects
pub mod EffectsHold
pub mod Sizes
pub mod Source
