pub mod Worth
pub mod Texts
pub mod Lexing
pub mod Splitting
pub mod Longest
