pub mod Outputs
pub mod Writes
pub mod Putting
pub mod Slicing
