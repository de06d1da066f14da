pub mod Apart
pub mod Worked
pub mod Tabled
pub mod FileNames
