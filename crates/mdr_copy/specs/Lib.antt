pub mod Extents
pub mod Serials
pub mod InPlaces
pub mod CellTypes
pub mod CellOrders
pub mod Searches
pub mod Namings
