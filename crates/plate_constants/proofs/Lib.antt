pub mod Halves
pub mod ShortConstant
pub mod SignedRead
pub mod Ops
