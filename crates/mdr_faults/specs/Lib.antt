pub mod Faults
pub mod Scopes
pub mod Declarations
pub mod Enums
pub mod Alike
pub mod Naming
