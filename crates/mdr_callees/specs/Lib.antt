pub mod Callees
pub mod Spaced
