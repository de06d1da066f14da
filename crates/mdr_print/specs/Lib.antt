pub mod Marks
pub mod Types
pub mod Forms
pub mod Declarations
pub mod Statements
pub mod Items
pub mod Spelled
