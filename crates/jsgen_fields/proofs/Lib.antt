pub mod Digits
pub mod FieldSteps
pub mod Gives
pub mod Listed
pub mod TypeNames
pub mod WordLengths
pub mod WordReads
