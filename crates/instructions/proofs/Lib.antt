pub mod FieldsRead
pub mod HeadRead
pub mod Headed
pub mod Counted
pub mod IfFields
