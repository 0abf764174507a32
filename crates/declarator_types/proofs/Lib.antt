pub mod Limits
pub mod Arrays
pub mod MemberSteps
