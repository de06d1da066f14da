pub mod Generator
pub mod Answer
