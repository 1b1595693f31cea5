pub mod Standing
pub mod Parting
pub mod Reaching
pub mod Readings
pub mod Gathering
pub mod Runs
pub mod Building
