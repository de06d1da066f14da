pub mod Transcripts
pub mod Digits
pub mod Lines
pub mod Steps
pub mod Reading
pub mod Verdicts
pub mod Printed
