pub mod Counted
pub mod Skips
pub mod Cases
