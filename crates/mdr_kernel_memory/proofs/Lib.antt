pub mod Blockwise
pub mod Storing
pub mod Beside
