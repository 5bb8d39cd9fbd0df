pub mod Cursors
pub mod Lexemes
pub mod Refusal
pub mod Words
