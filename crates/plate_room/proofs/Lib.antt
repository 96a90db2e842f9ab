pub mod OwnBits
pub mod Plates
pub mod LentPlates
