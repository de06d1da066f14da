pub mod Firsts
pub mod OneThing
pub mod Whose
mod Stages
mod Lexed
mod Something
