pub mod Calls
pub mod Keys
pub mod Parts
pub mod Quotes
