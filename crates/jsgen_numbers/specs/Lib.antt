pub mod Plain
pub mod Machine
