pub mod Bits
pub mod Number
pub mod Ahead
