mod Completed
mod EntryChanges
mod Integers
mod Numbered
mod OutlineSteps
mod Parts
mod ScopeNames
