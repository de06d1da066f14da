pub mod Statuses
pub mod Stages
pub mod Lines
pub mod Reads
