pub mod Meeting
pub mod Performing
