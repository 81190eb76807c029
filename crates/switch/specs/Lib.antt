pub mod Makes
pub mod Picks
