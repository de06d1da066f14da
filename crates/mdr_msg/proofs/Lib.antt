pub mod Unsigned
pub mod Loop
pub mod Fields
pub mod PayloadReaders
pub mod Messages
pub mod Prefixes
