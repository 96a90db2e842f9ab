pub mod WalkLines
pub mod Counted
pub mod Rooms
pub mod Whole
