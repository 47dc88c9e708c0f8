pub mod Cells
pub mod Every
pub mod Columns
pub mod First
pub mod Rows
pub mod Ids
