pub mod Arguments
pub mod Calls
pub mod Functions
pub mod Services
pub mod Turns
