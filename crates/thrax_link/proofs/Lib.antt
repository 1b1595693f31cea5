pub mod Soundness
pub mod Scopes
pub mod Placed
pub mod Fronts
pub mod Soles
pub mod Repeats
pub mod Outcomes
