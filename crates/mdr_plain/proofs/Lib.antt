pub mod Computing
mod RunProofs
mod InterruptProofs
mod ServiceProofs
pub mod RunLaws
pub mod KeepLaws
pub mod AloneLaws
pub mod ObjectLaws
mod NicProofs
