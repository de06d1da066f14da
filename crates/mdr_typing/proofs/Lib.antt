pub mod Becomings
pub mod Exact
