pub mod Answers
pub mod Bytes
pub mod Numbers
pub mod Steps
