pub mod Ends
pub mod Meant
