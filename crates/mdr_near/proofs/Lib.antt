pub mod Steps
pub mod Showing
