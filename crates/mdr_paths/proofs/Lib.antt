pub mod MarkLaws
pub mod NodeLists
pub mod PathLaws
pub mod ReachLaws
pub mod Tables
pub mod Told
pub mod TurnedLaws
