pub mod Folds
pub mod Reading
pub mod Rows
pub mod Steps
