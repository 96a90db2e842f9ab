pub mod Pour
