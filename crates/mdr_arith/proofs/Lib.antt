mod Bitwise
mod Conversions
mod Products
mod Quotients
mod Residues
mod Shifts
mod Sizes
mod Words
