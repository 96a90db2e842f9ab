pub mod Begins
pub mod KnownFields
pub mod KnownValues
pub mod KnownLines
pub mod KnownConstants
