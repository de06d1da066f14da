pub mod Watching
pub mod Guarding
pub mod Leaving
pub mod Nesting
pub mod Going
pub mod Commanding
