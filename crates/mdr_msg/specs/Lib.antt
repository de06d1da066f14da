pub mod Encoding
pub mod Decoding
pub mod WellFormed
pub mod OverBytes
pub mod Alone
