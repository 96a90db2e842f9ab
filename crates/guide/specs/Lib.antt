pub mod Block
pub mod Guide
pub mod Lines
