pub mod States
pub mod Modules
pub mod ExpressionPieces
pub mod Steps
pub mod Brackets
pub mod Ends
pub mod Reader
pub mod Law
