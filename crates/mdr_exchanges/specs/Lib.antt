pub mod Runs
pub mod Ends
pub mod Calls
pub mod Meanings
