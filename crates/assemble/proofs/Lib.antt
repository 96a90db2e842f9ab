pub mod Ahead
pub mod HeadCode
pub mod LinesFrom
pub mod Searched
pub mod Lent
pub mod Accepted
