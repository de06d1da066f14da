pub mod Converting
pub mod Forms
pub mod Rooms
pub mod Signs
pub mod Written
