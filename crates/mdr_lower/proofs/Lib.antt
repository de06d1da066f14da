pub mod Carried
pub mod Stepped
pub mod Typed
pub mod CallArms
pub mod Connected
pub mod Chained
