pub mod Holding
pub mod Own
pub mod Filled
pub mod Whole
