pub mod Gathering
pub mod TextTurns
