pub mod Ways
pub mod Shapes
pub mod Expanding
pub mod ReadsFirst
