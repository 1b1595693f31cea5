pub mod Cascades
pub mod Loads
pub mod Lines
pub mod Words
pub mod Searches
pub mod Parts
