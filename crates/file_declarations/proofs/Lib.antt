mod ConstantSteps
mod Extensions
mod Rules
