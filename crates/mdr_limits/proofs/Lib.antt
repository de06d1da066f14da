pub mod Faultless
pub mod Contained
pub mod FewSteps
pub mod SpacedTrees
pub mod FewMessages
