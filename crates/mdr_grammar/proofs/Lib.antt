mod Bools
pub mod Every
pub mod Hungry
mod Binding
mod FineForms
mod FineDeclarations
mod FineStatements
mod FineRules
mod Steps
mod Samples
mod Completion
mod Derivations
mod Whole
pub mod Cuts
pub mod Exact
pub mod Fronts
