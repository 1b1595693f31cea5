pub mod Cuts
pub mod EntryRules
pub mod Weights
