pub mod ObjectTables
pub mod TurnedLists
