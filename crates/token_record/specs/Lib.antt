pub mod Answers
pub mod Fields
pub mod Grammar
pub mod Lexemes
pub mod Meaning
pub mod Texts
pub mod Writable
pub mod Written
