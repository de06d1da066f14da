pub mod Apart
pub mod Levels
pub mod Lowering
pub mod Tables
