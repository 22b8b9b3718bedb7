pub mod Lines
pub mod Darks
pub mod Closes
pub mod Bare
pub mod Stays
pub mod Texts
pub mod Rows
pub mod Samples
