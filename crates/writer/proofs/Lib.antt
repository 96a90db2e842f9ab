pub mod LineBits
pub mod Codes
mod Complements
