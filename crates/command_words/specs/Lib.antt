pub mod Commands
pub mod Laws
pub mod Lines
pub mod Numbers
pub mod Options
pub mod Scan
pub mod Spellings
pub mod Texts
