pub mod Pour
pub mod Parts
pub mod Poured
pub mod Tails
