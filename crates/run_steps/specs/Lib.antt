pub mod Meets
pub mod Lines
