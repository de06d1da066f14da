mod HeldFuel
pub mod Clocks
mod Calm
mod Turns
mod Scripts
