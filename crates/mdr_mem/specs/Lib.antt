pub mod Contents
pub mod Rows
pub mod RowsView
pub mod Standing
