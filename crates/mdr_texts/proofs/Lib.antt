pub mod Whole
pub mod Growing
pub mod Canonicals
pub mod HalvesAgain
pub mod JoinedAgain
