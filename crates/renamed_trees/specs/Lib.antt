pub mod RenamedTrees
pub mod Renamings
pub mod TurnedLists
