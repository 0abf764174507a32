pub mod Locals
pub mod Taken
pub mod Within
