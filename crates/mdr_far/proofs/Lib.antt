pub mod Refusals
pub mod HalfSteps
pub mod FarLaws
