pub mod Counting
pub mod Sets
