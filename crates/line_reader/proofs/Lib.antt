pub mod FieldBytes
pub mod TestFields
pub mod OneText
pub mod Missing
