mod Sides
mod Guards
mod Through
mod Turns
mod Below
mod Nested
mod Passing
mod Calls
mod Scripted
pub mod Alone
