pub mod Sound
pub mod Nodes
pub mod Answers
