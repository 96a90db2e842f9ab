pub mod PairsWritten
