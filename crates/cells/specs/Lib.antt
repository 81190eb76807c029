pub mod Faults
pub mod Makes
