pub mod Program
pub mod Writing
pub mod Reading
pub mod Plate
