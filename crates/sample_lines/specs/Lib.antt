pub mod Draws
pub mod Lines
pub mod Summary
pub mod Toy
