pub mod Entries
pub mod Growth
