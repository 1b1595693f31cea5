pub mod Built
pub mod Found
pub mod Getters
pub mod Jobs
