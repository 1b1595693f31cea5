pub mod Scopes
pub mod Index
pub mod Quiet
pub mod Fronts
pub mod CallRules
pub mod FileRules
pub mod Bindings
