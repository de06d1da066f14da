pub mod Keys
pub mod Standing
pub mod Opening
pub mod Replying
pub mod Tidings
