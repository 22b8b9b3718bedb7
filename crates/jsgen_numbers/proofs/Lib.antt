pub mod Characters
pub mod Big
