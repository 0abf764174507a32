pub mod Built
pub mod Dividing
pub mod Outcomes
pub mod Shifting
pub mod Signs
