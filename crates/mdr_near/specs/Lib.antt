pub mod Turns
pub mod Endings
pub mod HalfState
pub mod HalfView
