pub mod Driver
pub mod Views
pub mod Watched
pub mod Kept
pub mod Laws
pub mod Worked
pub mod Order
