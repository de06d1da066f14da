pub mod Laws
pub mod Pairs
pub mod Pointers
pub mod Tracked
pub mod Worked
