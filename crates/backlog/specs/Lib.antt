pub mod Cells
pub mod Backlogs
