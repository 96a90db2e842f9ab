pub mod Agree
pub mod Table
