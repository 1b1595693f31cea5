pub mod Forms
pub mod Setups
pub mod Parts
