pub mod BoundNames
pub mod Members
