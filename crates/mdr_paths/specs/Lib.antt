pub mod Chains
pub mod Laws
pub mod Marking
pub mod Numbers
pub mod Paths
pub mod Turned
