pub mod JointCalls
pub mod Owners
