pub mod Suiting
pub mod HalfPrograms
pub mod Planned
pub mod HalfLaws
