pub mod Run
pub mod Steps
pub mod Call
pub mod More
