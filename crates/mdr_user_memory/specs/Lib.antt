pub mod Paired
pub mod Copied
pub mod Spots
pub mod Taking
pub mod Within
pub mod Lived
pub mod Kept
pub mod Beginning
