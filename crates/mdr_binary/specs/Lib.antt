pub mod Binaries
pub mod Choices
