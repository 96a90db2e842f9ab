pub mod Sources
pub mod TextsAt
