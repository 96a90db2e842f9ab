pub mod Valid
pub mod Stands
pub mod Width
pub mod BookValid
pub mod BookLines
pub mod FirstLines
pub mod Texts
pub mod Answers
mod Heads
pub mod Keys
pub mod Entries
pub mod Entered
pub mod CheckedBooks
mod Weights
pub mod OwnEntries
