pub mod Pointees
