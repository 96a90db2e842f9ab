pub mod Decimals
pub mod Constants
pub mod DecimalBytes
pub mod Reading
pub mod Signs
