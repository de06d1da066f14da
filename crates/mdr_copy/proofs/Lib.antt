pub mod Passing
pub mod Searches
pub mod Places
pub mod Orders
pub mod CellSearches
pub mod Rows
pub mod Stores
mod Joined
pub mod Births
pub mod Rising
pub mod Inserted
