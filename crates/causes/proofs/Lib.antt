pub mod Results
pub mod Lent
