pub mod Tables
pub mod Alike
pub mod StateSets
pub mod Numbered
pub mod Beside
