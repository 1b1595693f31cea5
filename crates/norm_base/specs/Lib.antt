pub mod Bytes
pub mod Calls
pub mod Causes
pub mod Counts
pub mod Devices
pub mod Files
