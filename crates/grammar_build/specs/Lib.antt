pub mod Empties
pub mod Parts
pub mod Sides
