pub mod Judged
pub mod Tables
