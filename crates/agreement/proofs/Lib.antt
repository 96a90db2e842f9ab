pub mod Agreement
pub mod Valid
pub mod Demand3
pub mod Composed
pub mod Longest
pub mod Lengthened
