pub mod Kept
pub mod Before
