mod BodyBlocks
mod DefinitionSteps
mod Extensions
mod HeaderSteps
mod OutermostViews
mod ParametersAgain
mod Redeclared
mod Steps
