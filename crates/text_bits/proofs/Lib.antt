pub mod Writes
pub mod TextBits
pub mod Characters
pub mod Codes
