pub mod Parts
pub mod Occurring
pub mod Values
pub mod Programs
pub mod Orders
