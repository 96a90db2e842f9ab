pub mod Onward
pub mod Ahead
pub mod Behind
pub mod Copies
pub mod Exits
