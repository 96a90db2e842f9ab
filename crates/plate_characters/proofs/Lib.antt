pub mod Characters
pub mod Cuts
pub mod Gathers
pub mod TextCopy
