mod Grids
pub mod Windows
pub mod Waits
