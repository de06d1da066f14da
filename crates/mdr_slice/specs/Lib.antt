pub mod Calls
pub mod Graph
pub mod Halves
pub mod Laws
pub mod Marks
pub mod Pointed
pub mod Worked
pub mod Written
