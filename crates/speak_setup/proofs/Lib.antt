pub mod Fronts
pub mod Once
pub mod Steps
pub mod Values
