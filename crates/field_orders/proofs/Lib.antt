pub mod Writings
pub mod Exploring
pub mod Beginnings
pub mod Rows
pub mod Stating
pub mod Meeting
pub mod Numbering
pub mod Joinings
