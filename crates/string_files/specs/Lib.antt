pub mod Fields
pub mod StringFiles
pub mod Entries
pub mod Lexicons
