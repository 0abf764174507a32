pub mod Premises
pub mod JointStand
