pub mod FieldNames
pub mod Items
pub mod Lookup
pub mod Placed
pub mod Sections
pub mod Typed
pub mod Views
