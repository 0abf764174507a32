pub mod AimsHold
pub mod Holding
pub mod ReadValues
pub mod WriteValues
pub mod Based
pub mod There
pub mod Picks
pub mod Puts
