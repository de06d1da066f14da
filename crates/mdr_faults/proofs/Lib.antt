pub mod Order
pub mod Gathered
pub mod Least
pub mod Stars
pub mod Declarators
pub mod Enumerating
pub mod Likeness
pub mod Places
