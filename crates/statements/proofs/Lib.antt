pub mod Answers
pub mod Options
pub mod Performs
pub mod Rooms
pub mod Tries
pub mod Longest
