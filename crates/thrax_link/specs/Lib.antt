pub mod Linking
pub mod Exports
pub mod Answers
pub mod Progress
