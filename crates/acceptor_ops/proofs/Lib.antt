pub mod Labels
pub mod Inputs
pub mod Filling
pub mod Determined
pub mod Flipped
pub mod TableRows
pub mod Besides
