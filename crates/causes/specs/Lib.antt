pub mod Causes
pub mod Answers
pub mod Limits
