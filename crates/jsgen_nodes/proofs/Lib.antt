pub mod Arrows
pub mod Asked
pub mod Assigned
pub mod Constructions
pub mod Elsewhere
pub mod Exported
pub mod Filled
pub mod IsNot
pub mod Keys
mod OnePiece
pub mod Parts
pub mod Said
pub mod Targeted
pub mod BeforeIt
pub mod NoneBefore
