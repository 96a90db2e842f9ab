pub mod Lay
pub mod Follow
pub mod Passes
pub mod Ranges
