pub mod Bytes
pub mod Reads
