pub mod Becoming
pub mod Profile
pub mod Sources
