pub mod Worths
pub mod Splits
pub mod Lists
pub mod Numbers
pub mod Once
pub mod WorkedLaws
