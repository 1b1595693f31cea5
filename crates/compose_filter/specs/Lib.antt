pub mod Steps
pub mod Combinations
pub mod ComposedPaths
pub mod Compositions
pub mod Readers
pub mod Numbered
pub mod Expansions
pub mod Listings
