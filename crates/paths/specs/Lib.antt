pub mod Laws
pub mod Route
pub mod Verdicts
pub mod Trails
