pub mod ListingCode
pub mod Call
