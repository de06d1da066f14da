pub mod BlockLaws
mod FirstLaws
pub mod GateLaws
mod GlobalLaws
pub mod HandleLaws
pub mod LaidLaws
pub mod LockLaws
mod PokeLaws
pub mod ReachLaws
pub mod RunLaws
pub mod SpinLaws
pub mod StorageLaws
pub mod WalkLaws
pub mod ZeroLaws
