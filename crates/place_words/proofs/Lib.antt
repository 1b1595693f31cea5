pub mod Modes
pub mod Views
pub mod Histories
pub mod Keeps
pub mod Changes
pub mod Allowed
pub mod Dealing
