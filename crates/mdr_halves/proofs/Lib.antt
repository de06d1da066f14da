pub mod Placing
pub mod Judging
pub mod Shaping
pub mod Coming
pub mod Steps
pub mod Refusing
