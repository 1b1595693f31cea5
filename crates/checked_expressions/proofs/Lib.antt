pub mod KindRules
pub mod ListRules
pub mod Soundness
