pub mod PrintedNames
