pub mod HeadLines
pub mod LineBytes
pub mod Pieces
