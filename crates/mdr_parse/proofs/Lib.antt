mod OuterForms
mod Sources
