pub mod Cases
pub mod Waits
