pub mod Sorts
pub mod Forms
pub mod Expressions
pub mod Declarations
pub mod Statements
pub mod Grammar
pub mod Running
pub mod Front
