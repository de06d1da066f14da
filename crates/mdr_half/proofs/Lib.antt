pub mod Pairing
pub mod Parted
pub mod Parts
pub mod WorkedText
