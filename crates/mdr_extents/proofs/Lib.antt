pub mod CellLists
pub mod SearchLaws
pub mod VisibleLaws
pub mod WorkedProofs
pub mod StructLaws
