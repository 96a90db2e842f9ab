pub mod Places
pub mod Signs
pub mod Content
pub mod Checksums
