pub mod Adding
pub mod Leaving
pub mod LineStatements
pub mod Options
pub mod Cycle
