pub mod Viewed
pub mod Laws
