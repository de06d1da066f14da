pub mod Called
pub mod Callees
pub mod Joined
