mod Admitting
pub mod Numbered
pub mod Arms
pub mod Through
pub mod Nones
mod Loops
pub mod Going
pub mod Turns
