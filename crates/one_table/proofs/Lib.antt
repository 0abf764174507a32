pub mod Numbered
pub mod Partners
pub mod Plans
pub mod Stands
