pub mod Aheads
