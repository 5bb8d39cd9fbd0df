pub mod Bits
pub mod Fitting
mod Following
mod Going
mod Growing
pub mod Limits
pub mod Predicting
mod Settling
pub mod Smallest
mod Walks
