pub mod Firsts
pub mod HeldCells
