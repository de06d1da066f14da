pub mod Stated
pub mod Deeper
