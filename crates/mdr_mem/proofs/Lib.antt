pub mod HandleLaws
pub mod RowLaws
pub mod SearchLaws
pub mod SoundLaws
pub mod OrderLaws
pub mod StandingLaws
