pub mod Bits
pub mod Loops
pub mod Refusals
pub mod Sound
