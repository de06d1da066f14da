pub mod Halves
pub mod HalfView
pub mod InBytes
pub mod Fars
pub mod Memories
pub mod FarView
