pub mod BackLaws
pub mod CalleeLaws
pub mod HalfLaws
pub mod SpacedLaws
