pub mod Writing
pub mod WordWriting
