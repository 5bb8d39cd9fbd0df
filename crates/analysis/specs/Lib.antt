pub mod Answers
pub mod Asked
pub mod Clashes
pub mod Contested
pub mod Places
pub mod Searches
pub mod Verdict
