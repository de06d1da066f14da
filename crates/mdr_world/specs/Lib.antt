pub mod Driven
pub mod Reaching
pub mod Stored
