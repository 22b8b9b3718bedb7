pub mod Appending
pub mod Ascii
pub mod Costs
pub mod Escaped
pub mod Fronts
pub mod Looks
pub mod Plain
pub mod PointTexts
