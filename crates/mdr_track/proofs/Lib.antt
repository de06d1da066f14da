pub mod PairLaws
pub mod PointerLaws
pub mod TrackedLaws
pub mod WorkedLaws
