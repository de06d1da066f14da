pub mod Outside
pub mod Ending
pub mod Parsing
