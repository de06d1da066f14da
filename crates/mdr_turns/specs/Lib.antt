pub mod States
pub mod Coming
