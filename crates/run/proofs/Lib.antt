pub mod Nexts
pub mod Going
pub mod Called
pub mod Short
pub mod Longest
