pub mod Expressions
pub mod Making
