pub mod Agreeing
pub mod Inners
pub mod Shortness
