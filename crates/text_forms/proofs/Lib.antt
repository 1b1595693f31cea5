pub mod Chains
pub mod Digits
pub mod Lists
pub mod Runs
pub mod Taking
