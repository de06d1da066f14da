pub mod Readers
pub mod Numbers
pub mod Opaque
pub mod Sequences
pub mod Spelled
