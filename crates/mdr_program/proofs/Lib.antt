pub mod Numbering
pub mod Zeroing
pub mod Allocating
pub mod Rising
pub mod FirstNumbers
pub mod Happening
