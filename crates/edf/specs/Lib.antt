pub mod Admission
pub mod Coming
pub mod Served
pub mod Laws
pub mod Busy
pub mod Keeps
