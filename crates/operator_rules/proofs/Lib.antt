pub mod AssignmentSteps
pub mod CastsGiven
pub mod FormsGiven
pub mod KeptResults
pub mod Steps
pub mod CastDepths
