pub mod Phrases
pub mod Book
pub mod Lookup
pub mod Index
pub mod Own
