pub mod LineCode
pub mod Assembled
