pub mod CellOrder
pub mod Around
pub mod Extent
pub mod Reaching
pub mod Laws
pub mod Worked
