pub mod Rest
pub mod Holes
pub mod Turns
pub mod Braced
pub mod NotOne
mod Pieces
pub mod Left
pub mod Lined
