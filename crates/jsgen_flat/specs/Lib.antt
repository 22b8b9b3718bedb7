pub mod Flat
pub mod Names
pub mod Views
