pub mod OverBytes
pub mod Alone
