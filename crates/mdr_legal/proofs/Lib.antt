mod OfHalves
mod Seen
mod Terms
mod Walks
