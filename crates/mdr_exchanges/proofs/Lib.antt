pub mod Turns
pub mod Endings
pub mod Counted
pub mod Stops
pub mod Meant
