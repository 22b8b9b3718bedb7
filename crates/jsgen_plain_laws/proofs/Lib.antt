pub mod Free
pub mod Kept
pub mod Named
pub mod Pieces
pub mod Productions
pub mod Plainness
pub mod Unresolved
