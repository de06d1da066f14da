pub mod Annotations
pub mod Within
pub mod Names
pub mod Structs
pub mod Heads
pub mod Source
pub mod Functions
