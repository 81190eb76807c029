pub mod Holds
pub mod Registers
pub mod Undone
pub mod Updates
pub mod Verdicts
