pub mod Orders
pub mod Remainders
pub mod Sources
pub mod Tables
