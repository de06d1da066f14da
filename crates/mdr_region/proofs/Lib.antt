pub mod BirthLaws
pub mod BlockLaws
pub mod CellLaws
pub mod ContentLaws
pub mod DeathLaws
mod Examples
pub mod HoleLaws
pub mod KeptLaws
pub mod MarkLaws
pub mod RegionLaws
pub mod SlotLaws
pub mod WholeLaws
