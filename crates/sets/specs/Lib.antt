pub mod Bounds
pub mod Rounds
pub mod Rules
pub mod Sets
pub mod Words
