pub mod Numbers
pub mod Tokens
pub mod Refusing
pub mod Numbered
