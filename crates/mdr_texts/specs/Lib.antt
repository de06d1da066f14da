pub mod PlanTexts
pub mod Canonical
pub mod HalfTexts
