pub mod Factorials
