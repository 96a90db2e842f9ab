pub mod Statement
pub mod State
pub mod Perform
pub mod Waiting
pub mod Tries
pub mod Machine
pub mod Offered
