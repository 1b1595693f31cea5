pub mod Ways
pub mod Entries
pub mod Looks
pub mod Publishings
pub mod Emptyings
pub mod Alone
pub mod Tables
pub mod Parts
