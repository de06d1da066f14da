pub mod Gives
pub mod Words
pub mod Numbers
pub mod Rules
pub mod Lines
pub mod Scripts
pub mod Binding
pub mod Worked
