pub mod BadBounds
pub mod Kept
pub mod Opened
pub mod Parties
pub mod Present
pub mod Trails
pub mod Ways
