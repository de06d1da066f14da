pub mod Rules
pub mod Machines
pub mod Horizon
pub mod Worked
