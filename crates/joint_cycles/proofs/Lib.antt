pub mod Closed
pub mod FirstOwner
