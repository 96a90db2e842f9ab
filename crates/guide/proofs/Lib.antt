pub mod Blocks
pub mod Valid
pub mod Accepted
pub mod Guides
pub mod Reading
pub mod Passing
pub mod Counting
