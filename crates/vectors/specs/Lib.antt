pub mod Input
pub mod Lent
pub mod Sums
pub mod Lines
pub mod Front
