pub mod Verdict
pub mod Close
pub mod Bodies
pub mod Pieces
pub mod UnitsLeft
pub mod Values
pub mod Classes
