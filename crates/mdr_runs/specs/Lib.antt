pub mod Around
pub mod Anywhere
pub mod Pausing
pub mod Seen
pub mod Following
pub mod Scripts
pub mod Laws
pub mod Upto
