pub mod Batches
pub mod Joined
