pub mod Stand
pub mod Woven
pub mod Law
