pub mod BehindStars
pub mod Alike
mod Starred
pub mod Voids
