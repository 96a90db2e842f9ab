pub mod Line
pub mod Check
pub mod Answers
pub mod Words
pub mod Fields
pub mod Clean
pub mod Known
