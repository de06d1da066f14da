pub mod HorizonLaws
pub mod Idle
pub mod WorkedLaws
