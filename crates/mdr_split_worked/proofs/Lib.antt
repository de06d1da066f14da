pub mod Following
pub mod TimedProofs
pub mod GraphProofs
pub mod CallbackProofs
