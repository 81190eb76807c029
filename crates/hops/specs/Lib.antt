pub mod Crossed
pub mod Hops
pub mod Joined
pub mod Level
pub mod Rows
pub mod Sent
