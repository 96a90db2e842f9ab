pub mod Descend
pub mod Leaves
pub mod Says
