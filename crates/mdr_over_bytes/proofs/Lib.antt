pub mod Lifted
pub mod StandAlone
