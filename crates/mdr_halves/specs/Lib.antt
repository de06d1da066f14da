pub mod Reads
pub mod Joins
pub mod Whole
pub mod Stages
pub mod Lines
pub mod Laws
