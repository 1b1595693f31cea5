pub mod Compare
pub mod Scans
pub mod Growing
pub mod Running
pub mod Marks
pub mod Ones
