pub mod Answers
pub mod Spots
pub mod Marks
pub mod Chains
pub mod Keys
