pub mod Meaning
pub mod Index
pub mod Tables
pub mod Answers
pub mod Calls
