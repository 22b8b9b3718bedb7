pub mod OneType
pub mod Sets
