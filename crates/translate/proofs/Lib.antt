pub mod Counting
pub mod Coded
pub mod Whole
