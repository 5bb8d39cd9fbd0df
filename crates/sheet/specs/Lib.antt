pub mod Denials
pub mod Kinds
pub mod Tokens
