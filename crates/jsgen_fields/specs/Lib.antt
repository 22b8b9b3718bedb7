pub mod Given
pub mod Meaning
pub mod Names
pub mod Parts
pub mod Reads
pub mod Texts
pub mod Values
