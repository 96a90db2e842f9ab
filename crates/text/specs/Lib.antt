pub mod Quoted
pub mod Parts
pub mod Utf8
pub mod Text
