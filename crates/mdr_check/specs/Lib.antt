pub mod Initialisers
pub mod Globals
pub mod Tables
pub mod Files
pub mod Uses
pub mod Names
pub mod Whole
