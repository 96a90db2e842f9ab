pub mod Numbers
pub mod Bytes
pub mod Fields
pub mod Turns
pub mod Words
pub mod Reading
