pub mod Translation
pub mod Call
