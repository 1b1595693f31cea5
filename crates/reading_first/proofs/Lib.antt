pub mod Readings
pub mod Chains
pub mod Following
pub mod Steps
pub mod Rows
pub mod First
pub mod Building
