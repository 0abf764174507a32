pub mod Effects
pub mod Stands
pub mod Selecting
pub mod Laws
