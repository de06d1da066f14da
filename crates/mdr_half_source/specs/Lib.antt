pub mod Loads
pub mod Halves
pub mod Stages
