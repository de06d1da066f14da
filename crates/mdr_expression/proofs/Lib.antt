mod Operating
mod Extending
mod Wording
mod Casting
pub mod Expressing
