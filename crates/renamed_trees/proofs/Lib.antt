pub mod TurnedTwice
