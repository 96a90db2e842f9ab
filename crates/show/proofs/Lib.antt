pub mod RefusedLines
pub mod Shown
pub mod Most
