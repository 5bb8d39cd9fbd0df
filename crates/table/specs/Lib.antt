pub mod Grammar
pub mod Kinds
pub mod Refusal
pub mod Rules
pub mod Spellings
