pub mod NoteViews
pub mod Views
pub mod Follows
