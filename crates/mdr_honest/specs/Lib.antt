pub mod HalfSources
pub mod PlanTexts
pub mod Plannable
pub mod SourcePlans
pub mod Honest
pub mod Loading
pub mod Scripts
pub mod Meanings
