pub mod Choose
pub mod Laws
pub mod Meaning
pub mod Minutes
pub mod Posts
pub mod Refusal
pub mod Sizes
