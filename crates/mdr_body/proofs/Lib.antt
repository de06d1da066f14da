pub mod Apart
pub mod Closing
mod Folds
pub mod Gathering
mod Switching
mod Undeclared
