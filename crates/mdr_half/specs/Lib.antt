pub mod Plans
pub mod Halves
pub mod Joins
pub mod Worked
