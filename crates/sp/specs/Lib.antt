pub mod Levels
pub mod Ends
pub mod Served
pub mod Keeps
pub mod Powers
pub mod Tested
pub mod Firsts
pub mod Suffice
