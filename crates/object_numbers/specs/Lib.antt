pub mod NumberedObjects
