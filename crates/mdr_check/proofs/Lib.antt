pub mod Initialising
pub mod Tabling
pub mod Filing
