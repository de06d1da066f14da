pub mod Activity
pub mod Carried
pub mod Code
pub mod Folds
pub mod Typing
