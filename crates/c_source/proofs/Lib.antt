pub mod ActionEffects
pub mod NeverLacks
pub mod Refusing
