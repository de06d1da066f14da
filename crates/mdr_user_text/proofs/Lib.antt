pub mod Headings
pub mod SameViews
pub mod SameCells
pub mod SameFits
pub mod SameReplies
